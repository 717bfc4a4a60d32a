pub mod Parser
pub mod Texts
pub mod Runs
pub mod Differences
pub mod ExactCalls
