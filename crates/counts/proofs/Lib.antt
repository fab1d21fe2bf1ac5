pub mod Ranked
pub mod Blocks
pub mod Found
