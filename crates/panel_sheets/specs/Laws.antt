pub mod Changed
pub mod Alerts
pub mod Vehicles
