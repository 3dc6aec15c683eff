pub mod Deselect
