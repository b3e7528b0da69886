pub mod Meaning
pub mod Walk
