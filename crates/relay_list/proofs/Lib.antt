pub mod Bridges
pub mod Elements
pub mod Records
pub mod Shift
pub mod Shown
pub mod Words
