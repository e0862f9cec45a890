pub mod Views
pub mod Words
pub mod Walks
