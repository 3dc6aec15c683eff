pub mod ReadLaws
pub mod SuitLaws
pub mod SampleLaws
