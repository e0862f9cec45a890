pub mod Line
pub mod Updates
