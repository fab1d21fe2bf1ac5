pub mod Parting
pub mod Aiming
pub mod Arriving
pub mod Attempting
pub mod Heads
pub mod Colours
pub mod Tries
