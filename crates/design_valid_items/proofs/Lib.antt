mod Texts
pub mod Growing
pub mod Leaves
pub mod Instances
pub mod Design
