pub mod GraphParts
pub mod Graphs
pub mod ComposerFaults
