pub mod Arrays
pub mod Compiled
pub mod Reading
pub mod Stages
