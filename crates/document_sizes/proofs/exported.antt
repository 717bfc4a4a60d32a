-- The theorems that crates above may name, and no others of these proofs.
pub mod Laws
