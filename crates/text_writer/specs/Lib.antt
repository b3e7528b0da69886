pub mod Writing
pub mod Passes
pub mod Claims
