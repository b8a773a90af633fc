pub mod Texts
pub mod Places
pub mod Wires
pub mod Connects
