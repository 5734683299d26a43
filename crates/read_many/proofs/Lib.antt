pub mod Head
pub mod Gets
pub mod Answers
pub mod Theorem
