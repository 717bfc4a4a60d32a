pub mod Loads
pub mod Bounds
pub mod GraphLaws
pub mod Linear
pub mod Leads
