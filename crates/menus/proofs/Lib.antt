pub mod Listing
pub mod Menus
