pub mod Table
pub mod Status
pub mod Blocks
pub mod Numbers
