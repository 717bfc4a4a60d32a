pub mod composed
pub mod document
pub mod loads
pub mod pushes
