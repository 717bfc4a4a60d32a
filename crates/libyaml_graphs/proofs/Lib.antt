pub mod graphs
pub mod machine
pub mod loads
pub mod vectors
pub mod exported
