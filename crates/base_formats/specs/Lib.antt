pub mod Format
pub mod Description
pub mod inside
