pub mod Opens
pub mod Leg
