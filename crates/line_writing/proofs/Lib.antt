pub mod SpacedLemmas
pub mod DocumentLemmas
pub mod exported
