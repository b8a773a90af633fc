pub mod Words
pub mod Block
pub mod Text
pub mod Until
