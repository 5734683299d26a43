pub mod Made
pub mod Batches
pub mod BlockReads
pub mod Claim
