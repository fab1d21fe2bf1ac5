pub mod Fitness
pub mod Plan
