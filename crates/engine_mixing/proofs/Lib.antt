pub mod Adding
pub mod OneOutput
