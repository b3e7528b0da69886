pub mod Ways
pub mod Walk
pub mod Changing
pub mod Meaning
pub mod Areas
pub mod Stack
pub mod Sets
pub mod Telling
