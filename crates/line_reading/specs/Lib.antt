pub mod tokens
pub mod sources
pub mod Clean
