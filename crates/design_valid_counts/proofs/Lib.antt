mod Added
mod Wires
mod Cells
mod Instances
pub mod Design
