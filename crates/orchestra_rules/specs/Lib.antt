pub mod Naming
pub mod Rating
pub mod Formed
