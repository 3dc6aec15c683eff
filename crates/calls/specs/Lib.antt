pub mod Result
pub mod Calls
