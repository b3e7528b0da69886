pub mod Elements
pub mod Events
pub mod FormBytes
pub mod Lines
pub mod Texts
pub mod OneDecoding
pub mod Answers
pub mod Examples
