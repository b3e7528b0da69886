pub mod LineLoop
pub mod Walk
