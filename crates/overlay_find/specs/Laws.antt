pub mod Tests
pub mod Halving
pub mod Rest
pub mod Looks
