pub mod Cuts
pub mod Products
