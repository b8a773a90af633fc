pub mod Digits
pub mod Written
pub mod Copied
pub mod Counted
pub mod Operands
pub mod Outputs
pub mod Truths
pub mod Selections
pub mod Narrow
mod Wordwise
mod Wholes
