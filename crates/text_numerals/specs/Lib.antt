pub mod Numeral
pub mod Nearest
pub mod Shortest
pub mod inside
