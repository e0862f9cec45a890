pub mod Message
pub mod Leaving
pub mod Promises
