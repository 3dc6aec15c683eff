pub mod RangeLaws
pub mod LevelLaws
