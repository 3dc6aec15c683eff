pub mod I2cLaws
