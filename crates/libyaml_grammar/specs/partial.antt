pub mod PartialTrees
pub mod PartialEvents
pub mod PartialFaults
pub mod FaultTexts
pub mod Rest
pub mod Fits
pub mod DeterminedEvents
