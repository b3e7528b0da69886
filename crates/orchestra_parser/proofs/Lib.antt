pub mod Reading
pub mod WholeReading
