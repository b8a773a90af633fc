mod Same
mod Stepping
pub mod Walked
