pub mod Kept
pub mod Alike
pub mod Rows
pub mod Plays
pub mod Lines
pub mod Outputs
