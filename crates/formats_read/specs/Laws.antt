pub mod Here
pub mod Lists
pub mod Walk
pub mod Folding
pub mod Progress
pub mod Rewriting
