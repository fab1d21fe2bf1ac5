pub mod Copying
pub mod Read
pub mod Slices
pub mod Words
