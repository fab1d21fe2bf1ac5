pub mod Head
pub mod Skip
pub mod Standing
