pub mod Gives
pub mod InBits
pub mod InWords
pub mod RoundTrips
pub mod Descriptions
