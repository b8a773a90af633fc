pub mod Names
pub mod Clashes
