pub mod Words
pub mod Exprs
pub mod MinusZero
pub mod Guards
pub mod Steps
pub mod Passing
pub mod CodeMeans
pub mod Lengths
