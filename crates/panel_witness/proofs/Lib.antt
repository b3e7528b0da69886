pub mod Unchanged
pub mod Sounding
pub mod Hearing
pub mod Rich
pub mod Walking
pub mod Keys
