mod Words
mod Reading
mod Order
mod Given
mod Pass
mod Clocked
mod Settling
pub mod FlatTest
