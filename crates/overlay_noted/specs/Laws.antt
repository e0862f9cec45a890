pub mod Places
pub mod Passes
pub mod Parts
pub mod Entries
