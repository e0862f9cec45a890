pub mod Text
pub mod Alert
pub mod Index
pub mod Applies
pub mod Label
pub mod Promises
