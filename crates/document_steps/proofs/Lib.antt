pub mod Running
pub mod Depth
pub mod Places
pub mod Tables
