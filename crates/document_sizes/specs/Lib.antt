pub mod Numbers
pub mod Counting
pub mod Runs
pub mod RunLaws
pub mod ParserRuns
pub mod ParserLaws
