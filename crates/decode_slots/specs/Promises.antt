pub mod Index
pub mod Places
