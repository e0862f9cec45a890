pub mod States
pub mod laws
