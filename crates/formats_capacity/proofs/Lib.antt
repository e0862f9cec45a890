-- The laws of the largest writing.
pub mod Laws
