pub mod AddressLaws
pub mod WrittenLaws
