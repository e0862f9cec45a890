pub mod Lists
pub mod Booleans
pub mod Texts
pub mod Options
pub mod Rows
