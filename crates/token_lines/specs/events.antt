pub mod EventRun
pub mod InTurn
pub mod EventStep
pub mod LastCall
