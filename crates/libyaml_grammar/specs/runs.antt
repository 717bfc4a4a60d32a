pub mod Runs
pub mod StreamEnds
