pub mod sources
pub mod parsers
pub mod machine
pub mod vectors
pub mod automaton
