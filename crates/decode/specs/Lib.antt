pub mod Sizes
pub mod Trip
pub mod Record
pub mod Key
pub mod Leaves
pub mod Promises
pub mod Laws
