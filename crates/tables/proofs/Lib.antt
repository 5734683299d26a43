pub mod Changes
pub mod Compared
pub mod Typed
