pub mod Laws
pub mod Focus
pub mod Round
pub mod Changes
pub mod Loops
