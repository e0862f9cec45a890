pub mod Answers
pub mod Indexing
pub mod Promises
