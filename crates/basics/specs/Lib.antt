pub mod Lists
pub mod Options
pub mod Texts
pub mod Integers
pub mod Rows
pub mod Laws
