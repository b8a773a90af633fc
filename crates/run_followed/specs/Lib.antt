pub mod Run
pub mod Fired
pub mod Progress
