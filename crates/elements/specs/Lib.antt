pub mod Binds
pub mod Bound
