pub mod Checked
pub mod Ports
mod Offsets
mod Cells
mod Registers
pub mod Library
