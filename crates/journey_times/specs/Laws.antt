pub mod Ranges
pub mod Events
pub mod Places
