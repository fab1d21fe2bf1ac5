pub mod Trying
pub mod Worlds
pub mod Values
pub mod Steps
pub mod Settled
pub mod Walking
