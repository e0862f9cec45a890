pub mod Ending
pub mod Ends
