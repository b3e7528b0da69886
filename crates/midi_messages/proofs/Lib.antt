pub mod OneByte
pub mod Gathering
pub mod Meaning
pub mod Room
pub mod Bounds
pub mod Faults
