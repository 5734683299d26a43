pub mod Least
pub mod Stages
pub mod Steps
pub mod Facts
pub mod Counts
pub mod Loads
pub mod Order
pub mod Members
