pub mod Situation
