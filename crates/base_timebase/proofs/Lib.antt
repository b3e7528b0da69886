pub mod Shift
pub mod Pattern
pub mod Cycle
pub mod Ranges
pub mod RangesAndTicks
pub mod Order
pub mod Growth
