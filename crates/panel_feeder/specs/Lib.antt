pub mod Order
pub mod Judging
pub mod Feeding
