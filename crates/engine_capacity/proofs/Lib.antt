pub mod Tokens
pub mod Counts
pub mod Holds
pub mod Plans
