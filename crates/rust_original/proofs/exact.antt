pub mod Quiet
pub mod Judged
pub mod Feed
pub mod Calls
