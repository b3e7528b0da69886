pub mod Starts
pub mod Reader
