pub mod Content
pub mod Form
pub mod Claims
pub mod inside
