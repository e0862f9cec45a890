pub mod Shown
pub mod Resolve
