mod Words
pub mod Ready
