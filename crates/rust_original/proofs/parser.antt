pub mod Relation
pub mod Handles
pub mod Nodes
pub mod States
pub mod Documents
pub mod Calls
