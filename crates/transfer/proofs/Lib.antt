pub mod RangeLaws
pub mod BufferLaws
pub mod LevelLaws
