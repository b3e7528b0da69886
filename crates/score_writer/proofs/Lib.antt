pub mod BitsAndBack
pub mod Bytes
pub mod Area
pub mod Lays
pub mod Ends
pub mod InSlots
pub mod Calls
