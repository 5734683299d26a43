pub mod Counted
pub mod Lending
pub mod Numbers
pub mod Outcomes
