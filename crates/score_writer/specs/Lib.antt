pub mod Writing
pub mod Slots
pub mod Written
pub mod Bytes
pub mod Claims
pub mod inside
