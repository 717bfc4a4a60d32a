pub mod StepLemmas
pub mod InTurnLemmas
pub mod LastCallLemmas
