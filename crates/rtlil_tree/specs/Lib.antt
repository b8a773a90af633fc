pub mod Input
pub mod Sigs
pub mod Statements
pub mod Processes
pub mod Modules
pub mod Attributes
pub mod Turns
