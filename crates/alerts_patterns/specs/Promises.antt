pub mod Occurrence
pub mod Tables
