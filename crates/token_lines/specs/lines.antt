pub mod LineRun
pub mod ReadsBack
pub mod OneOutput
pub mod InMemory
pub mod OneWriting
pub mod OneInMemory
