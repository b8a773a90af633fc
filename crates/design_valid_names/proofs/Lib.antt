pub mod Spaces
pub mod Adding
pub mod Owning
pub mod Owned
mod Leaves
pub mod Stepping
pub mod Walked
