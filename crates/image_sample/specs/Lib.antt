pub mod Stepped
pub mod Bits
pub mod Moved
