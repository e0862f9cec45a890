pub mod Ascends
