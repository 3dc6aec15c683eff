pub mod RolledLaws
pub mod ReadLaws
