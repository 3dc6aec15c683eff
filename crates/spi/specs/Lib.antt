pub mod Store
pub mod Show
pub mod Sample
