pub mod Text
pub mod Candidates
pub mod Numbers
pub mod Implied
pub mod LineCodes
pub mod ProductCodes
pub mod Vectors
pub mod Label
