pub mod Sayings
pub mod Agreeing
pub mod Isolated
pub mod Opened
pub mod Greeting
pub mod Recorded
