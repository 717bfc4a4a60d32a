-- The theorems that crates above may name, and no others of these proofs.
pub mod BoundedPrefixes
pub mod BoundedLoader
pub mod LoaderSteps
pub mod Roots
pub mod Building
pub mod LoadLists
pub mod RunLoads
pub mod Leading
