pub mod Walk
