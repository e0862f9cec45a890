pub mod State
pub mod Opened
pub mod Held
pub mod Feeds
