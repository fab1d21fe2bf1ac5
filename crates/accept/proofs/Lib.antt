pub mod Checking
pub mod Tables
