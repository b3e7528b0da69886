pub mod KindsAll
pub mod Walks
pub mod Stretches
pub mod Declarations
pub mod Rows
pub mod Loaded
pub mod Refused
