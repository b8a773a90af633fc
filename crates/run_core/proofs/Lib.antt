mod Writing
mod Items
mod Shown
mod Steps
mod Given
mod Slots
