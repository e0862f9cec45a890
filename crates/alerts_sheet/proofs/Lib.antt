-- Lemmas on plain values.
mod Progress
mod Listing
mod Keeping
