pub mod Texts
pub mod Places
pub mod Notes
pub mod Alerts
pub mod Leg
