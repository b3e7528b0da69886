pub mod Bytes
pub mod Readers
