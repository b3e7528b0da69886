pub mod PlayerState
