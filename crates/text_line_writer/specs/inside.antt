pub mod Drafts
pub mod LineText
pub mod NumberText
