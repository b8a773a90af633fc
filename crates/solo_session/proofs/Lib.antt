mod Serving
mod Batching
mod Taking
mod Going
mod Rounds
pub mod Paced
mod Finished
mod Extending
mod Endings
mod Reading
pub mod Leaving
mod Unsent
