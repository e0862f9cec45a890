pub mod Slices
pub mod Adds
pub mod Over
