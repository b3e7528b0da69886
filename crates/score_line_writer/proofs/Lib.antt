pub mod LineLaw
pub mod Packs
pub mod Writes
pub mod Proved
pub mod AnyLine
