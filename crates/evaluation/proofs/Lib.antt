pub mod Answers
pub mod Evaluating
pub mod Single
