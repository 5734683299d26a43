pub mod Outcomes
pub mod Parsed
