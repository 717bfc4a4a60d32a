pub mod StackVectors
