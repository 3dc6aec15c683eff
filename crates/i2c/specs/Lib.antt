pub mod Store
pub mod Pull
pub mod Sample
