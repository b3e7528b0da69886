pub mod OneCycle
pub mod CycleCall
