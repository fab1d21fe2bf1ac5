pub mod Heads
pub mod Passing
pub mod Skipping
pub mod Spelled
pub mod Laws
