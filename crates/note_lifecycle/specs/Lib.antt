pub mod OneNote
