pub mod Notation
pub mod ExampleVectors
pub mod AlikeVectors
pub mod DifferenceVectors
pub mod TextVectors
