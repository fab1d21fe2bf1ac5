pub mod Leafing
pub mod Settling
