pub mod Sign
pub mod WholePart
pub mod Magnitude
pub mod Ceiling
