pub mod Headers
pub mod Enrich
