pub mod MakeLaws
pub mod CallLaws
