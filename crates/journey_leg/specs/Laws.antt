pub mod Opens
pub mod Leg
pub mod Enriched
