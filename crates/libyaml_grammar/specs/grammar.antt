pub mod Tokens
pub mod Trees
pub mod Order
pub mod Events
pub mod ValidLists
pub mod Nesting
pub mod TokenNesting
