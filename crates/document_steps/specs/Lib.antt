pub mod Runs
pub mod Open
pub mod Places
pub mod RunLaws
pub mod Anchors
pub mod TokenLaws
