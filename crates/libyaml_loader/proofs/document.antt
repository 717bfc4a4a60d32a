pub mod AnchorLemmas
pub mod Deciding
pub mod Putting
pub mod Closing
