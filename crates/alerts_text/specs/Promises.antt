pub mod Blob
pub mod Word
pub mod Tables
pub mod Marked
