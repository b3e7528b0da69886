pub mod Candidates
pub mod ShortestText
pub mod Pushing
