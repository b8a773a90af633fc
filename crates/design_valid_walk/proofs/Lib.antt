pub mod Growing
pub mod Walking
mod Inputs
mod Joining
pub mod Arriving
pub mod Typed
pub mod Whole
