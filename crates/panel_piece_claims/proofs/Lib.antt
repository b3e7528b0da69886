pub mod Ordering
pub mod Feeding
pub mod Whole
pub mod Playing
pub mod ByCode
pub mod Core
