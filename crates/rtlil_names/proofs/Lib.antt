mod Named
mod Tokens
mod Sigs
mod Statements
mod Processes
pub mod Modules
pub mod Texts
