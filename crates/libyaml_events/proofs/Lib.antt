pub mod machine
pub mod calls
pub mod code
pub mod exported
pub mod pushes
pub mod layer
pub mod expected
