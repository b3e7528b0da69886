pub mod LineText
pub mod inside
