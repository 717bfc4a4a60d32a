pub mod Ids
pub mod TreeGraphs
pub mod Linear
pub mod Nestings
