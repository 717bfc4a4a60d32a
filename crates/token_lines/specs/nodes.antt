pub mod NodeRun
pub mod NodeStep
pub mod LastLoad
