pub mod Loop
pub mod WholeBlock
