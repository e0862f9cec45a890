pub mod Index
pub mod Places
pub mod Promises
pub mod Laws
