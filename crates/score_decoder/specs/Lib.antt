pub mod Area
pub mod inside
