pub mod Fits
pub mod Joined
pub mod Limits
pub mod Parts
pub mod Types
