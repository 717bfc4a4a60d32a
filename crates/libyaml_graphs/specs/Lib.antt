pub mod graphs
pub mod loads
pub mod machine
pub mod vectors
