pub mod Bounds
pub mod BoundedEvents
pub mod BoundedLoops
