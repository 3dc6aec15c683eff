pub mod Made
pub mod Make
