pub mod State
pub mod Valid
pub mod Image
pub mod Records
pub mod Lookup
pub mod Change
pub mod Report
pub mod Buffer
