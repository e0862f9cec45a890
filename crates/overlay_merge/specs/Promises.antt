pub mod Entry
pub mod Merge
pub mod Writes
