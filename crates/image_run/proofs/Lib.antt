pub mod SampleLaws
pub mod EventLaws
pub mod ExpectedLaws
