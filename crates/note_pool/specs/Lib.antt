pub mod Notes
pub mod Started
