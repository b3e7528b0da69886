pub mod Score
pub mod inside
