pub mod Survey
pub mod Head
