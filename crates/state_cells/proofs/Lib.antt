pub mod Masks
pub mod Same
pub mod Overlaid
mod Chosen
mod Edges
pub mod Fitting
