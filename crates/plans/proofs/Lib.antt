pub mod Fitness
pub mod Faults
