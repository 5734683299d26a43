pub mod Read
pub mod Claim
