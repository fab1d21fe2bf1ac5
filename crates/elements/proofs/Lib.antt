pub mod Binding
pub mod Solving
