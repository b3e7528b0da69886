pub mod OneNote
pub mod Values
