pub mod Prompt
pub mod OwnDirectives
pub mod TagPlaces
