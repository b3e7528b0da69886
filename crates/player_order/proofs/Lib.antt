pub mod Waits
pub mod Order
