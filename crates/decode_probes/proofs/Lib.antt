-- Lemmas on plain values.
mod Reading
mod Asking
mod Outcomes
mod Listing
mod Options
