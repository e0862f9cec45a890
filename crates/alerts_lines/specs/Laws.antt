pub mod Kinds
pub mod Marking
pub mod Rows
pub mod Choosing
