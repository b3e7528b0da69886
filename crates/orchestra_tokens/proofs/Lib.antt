mod Counting
pub mod RoundTrip
