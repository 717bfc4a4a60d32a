pub mod tokens
pub mod sources
mod Words
mod Ends
mod Lanes
mod Begun
