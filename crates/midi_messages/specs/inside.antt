pub mod Passes
pub mod Reading
