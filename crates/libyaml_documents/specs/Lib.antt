pub mod Documents
pub mod Equal
pub mod EqualNodes
pub mod EqualPayloads
pub mod LoadedNodes
pub mod Models
pub mod Node
pub mod Nodes
