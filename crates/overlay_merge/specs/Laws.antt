pub mod Puts
pub mod Entry
pub mod Merge
pub mod Loops
pub mod Limit
