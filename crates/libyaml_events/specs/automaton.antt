pub mod View
pub mod AutomatonResults
