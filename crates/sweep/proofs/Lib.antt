pub mod Tags
pub mod Kept
pub mod Passes
pub mod Swept
pub mod Steps
pub mod Marks
