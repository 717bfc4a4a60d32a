pub mod UpToDifferences
pub mod Apart
pub mod MachineCalls
pub mod Ended
pub mod RunExists
pub mod Laws
pub mod Within
pub mod Texts
