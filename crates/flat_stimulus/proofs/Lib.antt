pub mod Lists
pub mod Options
pub mod Columns
pub mod Values
pub mod Facts
pub mod Until
