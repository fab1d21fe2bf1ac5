pub mod Fields
pub mod Operator
