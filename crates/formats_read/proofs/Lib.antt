-- What the proofs of several functions use.
pub mod Locating
pub mod Laws
