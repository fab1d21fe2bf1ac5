pub mod Valuing
pub mod Comparing
pub mod Codes
pub mod Ranging
