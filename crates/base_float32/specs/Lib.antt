pub mod Builtins
pub mod Limit
