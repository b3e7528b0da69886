pub mod Playing
pub mod States
