pub mod Keeps
pub mod Done
pub mod Stays
pub mod OtherEventLaws
pub mod FlagLaws
pub mod AnswerLaws
