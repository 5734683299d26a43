pub mod Areas
pub mod KindLaws
pub mod Outcomes
pub mod Parts
