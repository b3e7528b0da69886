pub mod Stored
pub mod Back
pub mod Lines
pub mod Again
pub mod Short
pub mod Passing
pub mod Ends
pub mod Calls
