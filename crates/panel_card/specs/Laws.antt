pub mod Number
pub mod Card
