pub mod Adds
pub mod Given
