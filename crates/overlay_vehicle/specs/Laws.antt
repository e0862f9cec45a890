pub mod Vehicle
