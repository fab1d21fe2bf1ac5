pub mod Texts
pub mod Part
