pub mod Reading
pub mod Covering
