pub mod Slots
pub mod Binding
pub mod Ranging
