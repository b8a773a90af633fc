pub mod Values
pub mod Spans
pub mod Slices
pub mod Signals
pub mod Drives
