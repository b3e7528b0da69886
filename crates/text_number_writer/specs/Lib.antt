pub mod Push
pub mod Answers
