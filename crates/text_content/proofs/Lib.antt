pub mod Words
pub mod Many
pub mod Keeping
