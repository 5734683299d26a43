pub mod KeyLaws
pub mod BoundLaws
pub mod PlaceLaws
pub mod PartSound
pub mod BrickSound
pub mod PlaceSound
pub mod StoreSound
pub mod ByteLaws
