pub mod Positions
pub mod Log
pub mod Steps
pub mod Answers
