pub mod Model
pub mod Check
