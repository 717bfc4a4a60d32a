pub mod RunLemmas
pub mod KnownLines
pub mod ReadsBackLemmas
pub mod OneOutputs
pub mod WholeRuns
pub mod OneWritings
