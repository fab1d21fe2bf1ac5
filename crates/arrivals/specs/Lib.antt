pub mod Step
pub mod World
