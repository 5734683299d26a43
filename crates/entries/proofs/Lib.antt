pub mod Sorted
pub mod Words
pub mod Tables
