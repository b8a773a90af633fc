pub mod Marks
pub mod Tree
