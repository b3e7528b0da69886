pub mod Operations
pub mod Translation
pub mod Words
