pub mod VectorNotation
pub mod Vectors
pub mod PartialVectors
pub mod EmptyNodeVectors
