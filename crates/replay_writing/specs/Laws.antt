pub mod Ran
pub mod Kinds
