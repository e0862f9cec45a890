pub mod Fields
pub mod Here
pub mod Lists
pub mod Reads
