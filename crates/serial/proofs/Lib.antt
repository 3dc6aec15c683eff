pub mod BitLaws
pub mod AddressLaws
pub mod WriteLaws
pub mod LevelLaws
