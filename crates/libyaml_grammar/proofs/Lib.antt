pub mod trees
pub mod runs
pub mod exported
