pub mod Changed
pub mod Ending
pub mod Ends
pub mod Lengths
