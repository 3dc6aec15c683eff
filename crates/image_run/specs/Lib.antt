pub mod Sampled
pub mod Told
