pub mod Playing
pub mod Core
