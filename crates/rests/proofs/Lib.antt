pub mod Chosen
pub mod Resting
