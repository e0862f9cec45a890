pub mod Searching
pub mod Patterns
pub mod Skipping
