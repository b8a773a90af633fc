pub mod Names
pub mod Readings
pub mod Rules
pub mod Diagnostics
