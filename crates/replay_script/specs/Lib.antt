pub mod Script
pub mod Tells
pub mod Told
pub mod Promises
