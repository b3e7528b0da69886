pub mod Verdict
pub mod inside
