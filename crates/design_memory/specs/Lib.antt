pub mod Names
pub mod Settings
pub mod Rules
pub mod Memories
