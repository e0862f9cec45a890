-- Lemmas on plain values.
mod Presence
mod Wording
mod Ids
mod Walking
mod Counting
mod Keeping
