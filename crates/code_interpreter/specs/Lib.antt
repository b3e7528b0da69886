pub mod Run
pub mod Passes
pub mod Area
pub mod WorkingArea
