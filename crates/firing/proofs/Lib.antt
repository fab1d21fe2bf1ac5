pub mod Firing
pub mod Calling
