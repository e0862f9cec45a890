pub mod Finds
pub mod Texts
