pub mod Pace
pub mod Session
pub mod Solo
pub mod Reading
pub mod Hits
