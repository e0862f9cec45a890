pub mod Noted
pub mod Noting
