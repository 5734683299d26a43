pub mod Places
pub mod Each
pub mod Contents
pub mod Layout
pub mod Store
