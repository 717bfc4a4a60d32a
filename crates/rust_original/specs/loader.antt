pub mod Loader
pub mod LoadsThere
