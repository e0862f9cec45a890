-- Lemmas on plain values.
mod Filing
mod Applying
