-- Lemmas on plain values.
mod Reader
mod Wires
mod Seeking
mod Stops
mod Ones
mod Finding
mod Trips
mod Typing
mod Walking
mod Short
