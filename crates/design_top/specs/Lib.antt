pub mod Tops
pub mod Names
pub mod Inputs
