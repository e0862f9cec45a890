pub mod Bytes
pub mod Ends
pub mod Pieces
pub mod Names
pub mod Products
pub mod LineCodes
