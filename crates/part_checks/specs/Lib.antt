pub mod Copies
pub mod Agreed
pub mod Bag
pub mod Proxies
