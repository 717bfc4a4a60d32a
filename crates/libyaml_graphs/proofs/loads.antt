pub mod OneLoad
pub mod Room
pub mod RunLoads
pub mod StopFaults
pub mod TextLoads
