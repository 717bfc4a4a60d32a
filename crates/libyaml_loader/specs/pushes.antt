pub mod LoadMemory
pub mod Composing
pub mod Loaded
pub mod PushesLoads
pub mod OnePushLoads
