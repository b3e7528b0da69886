pub mod Lengths
pub mod Source
