pub mod Constants
pub mod Words
pub mod Lines
pub mod Module
pub mod Place
