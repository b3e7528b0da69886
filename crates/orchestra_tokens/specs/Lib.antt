pub mod Encoding
pub mod Measures
pub mod inside
