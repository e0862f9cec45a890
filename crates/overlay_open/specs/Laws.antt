pub mod Fine
pub mod Splits
pub mod Valid
pub mod Feed
pub mod Opened
pub mod Held
pub mod Records
pub mod Feeds
