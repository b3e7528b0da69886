pub mod Parts
pub mod Groupwise
pub mod Samplewise
pub mod Exchange
pub mod Ready
