pub mod Numbering
pub mod Sizes
