pub mod Event
pub mod Read
pub mod Sample
