pub mod grammar
pub mod partial
pub mod runs
pub mod vectors
