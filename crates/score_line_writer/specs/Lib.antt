pub mod Writing
pub mod Claims
pub mod Stored
pub mod inside
