pub mod Names
pub mod Wires
pub mod Ports
pub mod Cells
pub mod Labels
pub mod Circuit
pub mod Flat
