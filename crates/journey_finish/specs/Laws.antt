pub mod Finish
pub mod Legs
