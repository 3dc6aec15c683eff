pub mod LevelLaws
pub mod StateLaws
