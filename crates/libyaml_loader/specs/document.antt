pub mod Ids
pub mod Stack
pub mod Anchors
pub mod Refusals
pub mod Context
