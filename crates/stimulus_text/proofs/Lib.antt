pub mod FirstLines
pub mod Hexadecimal
