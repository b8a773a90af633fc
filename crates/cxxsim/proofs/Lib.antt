pub mod Shown
pub mod Steps
pub mod Begun
pub mod Printing
pub mod Answering
pub mod Following
pub mod Holding
