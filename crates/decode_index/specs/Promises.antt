pub mod Message
pub mod Leaving
