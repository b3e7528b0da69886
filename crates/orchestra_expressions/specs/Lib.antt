pub mod Roles
pub mod Reader
pub mod Areas
