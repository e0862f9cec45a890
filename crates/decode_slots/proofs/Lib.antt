-- Lemmas on plain values.
pub mod Ranks
pub mod Settling
