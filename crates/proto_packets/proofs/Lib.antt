mod Reading
pub mod Parts
mod Loops
