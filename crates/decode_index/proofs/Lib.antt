-- Lemmas on plain values.
pub mod Laws
mod Entities
mod Leaves
