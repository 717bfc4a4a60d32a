pub mod Appended
pub mod LinesLemmas
pub mod Problems
pub mod NextLines
pub mod OneLines
