pub mod RestLaws
pub mod BackLaws
