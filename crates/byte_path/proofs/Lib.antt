pub mod PinLaws
pub mod ByteLaws
pub mod ByBytes
pub mod HeadLaws
