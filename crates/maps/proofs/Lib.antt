pub mod Saving
pub mod Mapping
