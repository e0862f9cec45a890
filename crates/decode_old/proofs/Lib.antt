-- Lemmas on plain values.
mod Joining
