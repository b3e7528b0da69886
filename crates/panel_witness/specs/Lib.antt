pub mod Growing
pub mod Calls
pub mod Rich
pub mod Keys
