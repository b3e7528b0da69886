pub mod Bursts
pub mod Claims
pub mod inside
