-- What the proofs of several functions use.
mod Ends
mod Numbers
