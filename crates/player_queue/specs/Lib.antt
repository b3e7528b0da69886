pub mod Waiting
pub mod Admission
