pub mod Whole
pub mod Vehicles
pub mod Clock
