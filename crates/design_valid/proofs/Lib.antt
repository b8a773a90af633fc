pub mod Keeping
pub mod Lists
pub mod Sigs
pub mod Driven
pub mod Wiring
pub mod Wires
