pub mod Agreeing
pub mod Knowing
