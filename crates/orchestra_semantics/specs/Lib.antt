pub mod Meaning
pub mod inside
