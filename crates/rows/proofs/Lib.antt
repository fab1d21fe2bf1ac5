pub mod Alike
pub mod Shift
pub mod Ranks
pub mod Rows
pub mod Places
pub mod Added
pub mod Listings
