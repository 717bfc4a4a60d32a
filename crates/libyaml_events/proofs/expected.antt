pub mod AtPosition
pub mod Accepting
pub mod Expected
pub mod RestTypes
pub mod Completing
