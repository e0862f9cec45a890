pub mod Number
pub mod Passes
pub mod Leads
