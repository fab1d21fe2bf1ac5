pub mod Bindings
pub mod Menus
