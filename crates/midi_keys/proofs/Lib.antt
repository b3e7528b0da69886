pub mod Table
pub mod Exact
