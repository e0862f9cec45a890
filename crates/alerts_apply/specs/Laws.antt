pub mod Texts
pub mod Words
pub mod Hits
pub mod Known
pub mod Room
