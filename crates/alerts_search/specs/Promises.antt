pub mod Ids
pub mod Marks
pub mod Candidates
pub mod Places
