pub mod SpiLaws
