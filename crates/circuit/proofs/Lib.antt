pub mod Same
pub mod Freed
pub mod Counting
pub mod Listed
pub mod Length
mod Multiples
mod Texts
mod Tested
mod Slots
pub mod Gathered
mod Still
pub mod Rounds
mod Widths
mod Below
mod StateOf
mod Shown
pub mod Grown
mod Apart
mod FirstSlots
mod Choices
pub mod Signals
mod SigParts
mod Worded
