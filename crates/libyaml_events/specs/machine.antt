pub mod Read
pub mod Config
pub mod Want
pub mod Machine
pub mod Growth
pub mod Steps
pub mod StepsOnto
pub mod Outcomes
