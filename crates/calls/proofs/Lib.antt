pub mod SelectCases
pub mod InRange
pub mod Opening
pub mod CallLaws
pub mod Numbers
pub mod Kept
pub mod ResultExamples
pub mod OrderExamples
