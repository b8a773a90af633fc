pub mod BitValue
pub mod Digits
pub mod TimeText
pub mod Shape
pub mod Parts
pub mod Values
