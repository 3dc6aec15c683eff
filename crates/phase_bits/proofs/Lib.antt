pub mod FieldLaws
pub mod ByteLaws
