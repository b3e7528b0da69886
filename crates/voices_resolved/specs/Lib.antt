pub mod Tree
pub mod Represents
pub mod Claims
