pub mod Advance
pub mod Stops
pub mod Endpoints
