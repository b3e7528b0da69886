pub mod Ranges
pub mod Plans
