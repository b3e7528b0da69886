pub mod LineFormat
pub mod Reading
pub mod inside
