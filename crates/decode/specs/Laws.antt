pub mod Written
pub mod Leaves
pub mod Fine
pub mod Examples
