pub mod Probes
pub mod Laws
