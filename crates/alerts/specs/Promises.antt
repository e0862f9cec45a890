pub mod Reduced
pub mod Label
