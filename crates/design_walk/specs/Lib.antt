pub mod Modules
pub mod Cells
pub mod Instances
pub mod Walks
pub mod Kept
