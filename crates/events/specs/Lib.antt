pub mod Reply
pub mod Event
pub mod Flag
pub mod OtherEvent
pub mod Stays
