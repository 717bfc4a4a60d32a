pub mod InTurn
pub mod Steps
pub mod Pushing
pub mod OnePushLoads
