pub mod Sweep
pub mod Marks
