mod Choices
mod DocumentsEqual
mod EventsEqual
mod Fields
pub mod Ids
mod Named
mod NodesEqual
mod TokensEqual
