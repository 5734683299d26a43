pub mod Blocks
pub mod Turns
pub mod Theorem
