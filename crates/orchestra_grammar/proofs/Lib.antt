pub mod Firsts
pub mod Results
pub mod Steady
pub mod Steps
pub mod Complete
pub mod Sound
pub mod Unique
