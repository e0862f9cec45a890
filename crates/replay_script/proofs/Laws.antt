pub mod Told
pub mod Asked
pub mod Worked
