pub mod Coordinates
pub mod Place
