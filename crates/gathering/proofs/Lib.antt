pub mod Gathering
pub mod Keyed
