pub mod Line
pub mod LineFault
pub mod LineLaws
pub mod LineSource
pub mod LineSourceLaws
pub mod NextLine
pub mod ReadLines
pub mod OneLine
