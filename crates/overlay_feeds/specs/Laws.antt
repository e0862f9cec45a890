pub mod Look
pub mod Map
pub mod Head
pub mod Parts
pub mod Place
