pub mod FieldLaws
pub mod BusLaws
