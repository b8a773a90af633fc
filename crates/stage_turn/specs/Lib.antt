pub mod Kept
pub mod Known
pub mod Turn
pub mod Rule
pub mod Steps
pub mod Seat
pub mod TestLog
