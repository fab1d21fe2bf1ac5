pub mod Colours
pub mod Packing
pub mod Flowing
