pub mod Halves
pub mod Steps
pub mod Bound
pub mod Documents
pub mod Keys
pub mod Loads
pub mod Compared
