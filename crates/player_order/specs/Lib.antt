pub mod UpTo
pub mod Order
