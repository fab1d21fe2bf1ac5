pub mod Sorted
pub mod Counting
pub mod Rows
