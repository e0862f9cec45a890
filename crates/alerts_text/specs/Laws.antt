pub mod Blob
pub mod Word
