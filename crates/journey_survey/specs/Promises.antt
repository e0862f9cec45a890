pub mod Surveyed
pub mod Legs
