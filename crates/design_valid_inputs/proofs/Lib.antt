mod Counts
mod Staying
mod Top
pub mod Design
