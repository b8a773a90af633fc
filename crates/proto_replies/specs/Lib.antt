pub mod Data
pub mod Text
