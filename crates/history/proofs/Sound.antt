-- Every event keeps a sound store sound, and format makes a sound one.
pub mod Lists
pub mod Groups
pub mod Writes
pub mod Maps
pub mod Membership
pub mod Upkeep
pub mod Views
pub mod Format
pub mod All
