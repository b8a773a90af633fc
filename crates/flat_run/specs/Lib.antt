pub mod Run
pub mod Progress
