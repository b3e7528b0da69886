pub mod Between
pub mod Readying
pub mod Seating
pub mod Rooms
pub mod Together
pub mod StepFive
