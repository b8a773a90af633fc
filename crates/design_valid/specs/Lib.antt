pub mod Keeps
pub mod Wired
