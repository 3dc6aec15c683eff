pub mod Levels
pub mod Edge
pub mod Flag
pub mod Opcode
pub mod Phase
pub mod Ranges
