pub mod Order
pub mod Admission
pub mod Idle
