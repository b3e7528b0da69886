pub mod Bits
pub mod Fields
pub mod Filling
pub mod inside
