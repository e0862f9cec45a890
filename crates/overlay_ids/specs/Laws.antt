pub mod Feed
pub mod Split
pub mod Joined
pub mod Fits
