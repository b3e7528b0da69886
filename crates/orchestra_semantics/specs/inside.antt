pub mod Outputs
pub mod Placed
pub mod Translation
