pub mod Words
pub mod Cursor
pub mod Progress
pub mod Samples
