pub mod FieldLaws
pub mod SpiBits
pub mod I2cBits
pub mod SpiLaws
pub mod I2cLaws
