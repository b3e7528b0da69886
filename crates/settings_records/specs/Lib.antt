pub mod Form
pub mod Changes
pub mod Claims
pub mod inside
