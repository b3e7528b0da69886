pub mod Translation
pub mod Statements
