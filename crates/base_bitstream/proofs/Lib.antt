pub mod BitValues
pub mod Fields
pub mod Window
pub mod Filling
