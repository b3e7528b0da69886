pub mod Message
pub mod Writing
pub mod Claims
pub mod inside
