pub mod Tree
pub mod Grammar
pub mod Names
pub mod Rates
pub mod inside
