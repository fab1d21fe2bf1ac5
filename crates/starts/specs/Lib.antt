pub mod Known
pub mod Start
