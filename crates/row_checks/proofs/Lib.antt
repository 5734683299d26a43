pub mod RowLaws
pub mod StretchLaws
pub mod ChunkLaws
