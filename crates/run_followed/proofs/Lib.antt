mod Among
mod Steps
pub mod Until
