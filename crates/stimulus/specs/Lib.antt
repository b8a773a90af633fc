pub mod Inputs
pub mod Steps
pub mod Stops
pub mod Sound
pub mod Reading
pub mod Runs
