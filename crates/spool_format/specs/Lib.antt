pub mod Records
pub mod Fields
pub mod Reading
pub mod Kept
pub mod Worked
