pub mod Origins
pub mod Marks
pub mod Starts
pub mod Chains
pub mod Driven
