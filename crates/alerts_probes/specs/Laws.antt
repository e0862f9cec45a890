pub mod Probes
pub mod Alert
pub mod Line
