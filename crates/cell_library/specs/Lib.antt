pub mod Lines
pub mod Names
pub mod Table
pub mod Whole
pub mod Values
pub mod Checks
pub mod Fit
