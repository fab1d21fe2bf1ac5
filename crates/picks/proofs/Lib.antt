pub mod Firing
pub mod Picking
