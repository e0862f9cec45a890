pub mod Told
pub mod Card
