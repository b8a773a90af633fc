pub mod Ports
pub mod Instances
pub mod Joins
