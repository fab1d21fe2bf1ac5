pub mod Keys
pub mod Changes
pub mod Tables
