pub mod Bodies
pub mod Message
