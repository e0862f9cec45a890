-- Lemmas on plain values.
pub mod Writing
