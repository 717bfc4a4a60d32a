pub mod Numbers
pub mod Composing
pub mod DocumentSoFar
pub mod Represents
