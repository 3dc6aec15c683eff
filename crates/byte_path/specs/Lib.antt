pub mod PinPath
pub mod ByBytes
pub mod Head
pub mod Select
