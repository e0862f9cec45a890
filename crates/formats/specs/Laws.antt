pub mod Law
pub mod Number
pub mod Format
pub mod Outcome
pub mod Examples
