pub mod Passes
pub mod Reading
pub mod Scanning
pub mod Token
