pub mod Passes
pub mod Samples
