mod Ranges
mod Parts
mod Fitting
pub mod Memory
pub mod Silent
