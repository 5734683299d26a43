pub mod Positions
pub mod Regions
pub mod Chunks
pub mod Check
pub mod Changes
pub mod Rules
pub mod Codec
pub mod Steps
