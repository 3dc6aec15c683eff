pub mod Traces
pub mod Cases
pub mod Examples
pub mod OwnCases
pub mod Refusals
pub mod Flags
pub mod Codes
pub mod Words
