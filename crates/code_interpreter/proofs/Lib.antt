pub mod Running
pub mod OneInstruction
pub mod Loops
pub mod Numbers
pub mod Rooms
