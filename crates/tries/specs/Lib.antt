pub mod Partial
pub mod Range
