pub mod NodeWritesLemmas
pub mod NodeTurnLemmas
pub mod LargeRuns
pub mod NoBound
pub mod NodeWritings
