pub mod Form
pub mod Asking
pub mod Claims
pub mod inside
