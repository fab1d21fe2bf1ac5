pub mod Known
pub mod Met
