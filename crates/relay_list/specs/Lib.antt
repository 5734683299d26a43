pub mod Bridges
pub mod Relays
pub mod Shown
