pub mod LoadGrowth
pub mod Loading
pub mod NextLoad
pub mod OneLoad
pub mod LoadsInTurn
pub mod HalfDocument
pub mod PartialLoad
pub mod SharedNodes
