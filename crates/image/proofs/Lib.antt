pub mod WordLaws
pub mod RangeLaws
pub mod TakenLaws
pub mod ImageExamples
