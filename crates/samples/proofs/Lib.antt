pub mod SamplesLaws
pub mod NextLaws
pub mod HeldLaws
pub mod BoundLaws
