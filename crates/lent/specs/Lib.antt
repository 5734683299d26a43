pub mod Performs
pub mod Stores
pub mod Asks
pub mod Places
pub mod Parts
