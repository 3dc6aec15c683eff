pub mod Levels
pub mod Edge
pub mod Word
pub mod Buffer
pub mod Phase
pub mod Flag
pub mod Ranges
