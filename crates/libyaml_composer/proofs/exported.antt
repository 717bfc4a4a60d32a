-- The theorems that crates above may name, and no others of these proofs.
pub mod Deeds
pub mod Follows
pub mod Opens
pub mod Reasons
pub mod Stacks
pub mod Standing
