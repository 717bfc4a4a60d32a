pub mod Built
pub mod Following
pub mod Sizes
pub mod LoaderLoads
