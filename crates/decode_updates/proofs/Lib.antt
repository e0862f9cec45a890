-- Lemmas on plain values.
mod Walking
mod Listing
mod Counting
mod Crowding
mod Noting
