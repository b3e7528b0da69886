pub mod Placed
pub mod Program
pub mod Translation
