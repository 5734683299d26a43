pub mod Tables
pub mod Spots
