pub mod Tests
pub mod Columns
pub mod Runs
pub mod Rows
pub mod Ascending
