pub mod Stepping
pub mod Samples
pub mod Idle
pub mod Calling
