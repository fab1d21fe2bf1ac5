pub mod Scene
pub mod Search
