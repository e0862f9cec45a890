pub mod Line
pub mod Updates
pub mod Promises
pub mod Laws
