pub mod StoreLaws
pub mod Keeps
