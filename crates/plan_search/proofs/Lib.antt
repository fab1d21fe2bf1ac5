pub mod Sparing
pub mod OnlyLeaf
