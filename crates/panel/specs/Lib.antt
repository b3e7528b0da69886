pub mod State
pub mod Display
pub mod Calls
