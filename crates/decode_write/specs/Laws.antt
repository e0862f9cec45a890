pub mod Groups
pub mod Written
pub mod Records
pub mod Slots
pub mod Counts
