pub mod Bounded
pub mod Loads
