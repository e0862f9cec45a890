pub mod Old
