pub mod SetsLaws
pub mod EventLaws
pub mod RunLaws
pub mod SamplesRun
pub mod OtherLaws
pub mod RunRule
pub mod RunCounts
pub mod OneLaws
