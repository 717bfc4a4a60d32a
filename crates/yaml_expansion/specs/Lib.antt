pub mod Expansion
pub mod ExpansionFaults
pub mod Sizes
pub mod Walks
pub mod Ways
