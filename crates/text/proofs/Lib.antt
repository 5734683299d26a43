pub mod Laws
pub mod Packed
pub mod Fields
pub mod Lines
pub mod RoundTrip
pub mod Examples
pub mod Events
pub mod Short
