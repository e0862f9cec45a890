pub mod Again
pub mod Entries
