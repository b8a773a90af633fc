pub mod Frames
pub mod Turns
pub mod Work
