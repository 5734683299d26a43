pub mod Tests
pub mod Columns
pub mod Lists
pub mod Runs
pub mod Rows
pub mod Ascending
pub mod Ranges
