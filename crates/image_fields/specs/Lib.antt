pub mod Fields
pub mod SpiPhase
pub mod I2cPhase
pub mod State
