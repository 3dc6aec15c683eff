pub mod ShowLaws
pub mod TextExamples
