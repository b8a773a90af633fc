pub mod Rows
pub mod Ports
