pub mod parser
pub mod runs
pub mod exact
pub mod loads
