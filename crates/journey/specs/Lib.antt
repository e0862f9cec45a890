pub mod Card
pub mod Times
pub mod Enrich
pub mod ByIndex
