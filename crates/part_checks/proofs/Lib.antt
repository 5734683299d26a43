pub mod CopyLaws
pub mod BagLaws
pub mod ProxyLaws
pub mod AgreedLaws
