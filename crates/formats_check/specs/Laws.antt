pub mod Joined
pub mod Checked
pub mod Elements
pub mod Walks
pub mod Rising
pub mod Climbing
pub mod Five
