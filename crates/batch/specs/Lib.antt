pub mod Batch
pub mod Claim
