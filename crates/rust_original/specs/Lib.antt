pub mod parser
pub mod loader
pub mod vectors
