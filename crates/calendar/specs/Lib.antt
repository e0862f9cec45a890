pub mod Civil
pub mod Paris
pub mod Laws
