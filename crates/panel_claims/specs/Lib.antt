pub mod Verdict
pub mod Fresh
pub mod Claims
pub mod Core
pub mod ByContract
pub mod Standing
pub mod Told
