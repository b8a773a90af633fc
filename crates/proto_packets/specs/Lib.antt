pub mod Kind
pub mod Asked
pub mod Answers
