pub mod Realtime
