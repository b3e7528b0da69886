pub mod Formed
pub mod Heads
pub mod Marking
pub mod Judging
pub mod Ending
pub mod Verdict
pub mod Examples
pub mod Stages
