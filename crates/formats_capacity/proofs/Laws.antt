pub mod Capacity
pub mod Fitting
