pub mod Field
pub mod Byte
