pub mod Bits
pub mod Address
pub mod Write
pub mod Level
