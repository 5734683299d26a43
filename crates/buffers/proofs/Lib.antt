pub mod Sifted
pub mod Drained
