pub mod Skim
pub mod Index
pub mod Places
pub mod Standing
pub mod Parted
