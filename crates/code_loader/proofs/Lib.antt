pub mod Filling
pub mod Declared
pub mod Rows
