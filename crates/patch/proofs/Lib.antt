pub mod Patched
pub mod Writing
