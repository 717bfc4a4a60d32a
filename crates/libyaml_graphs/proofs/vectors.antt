pub mod LoadVectors
