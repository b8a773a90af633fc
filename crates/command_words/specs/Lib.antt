pub mod Line
pub mod Modes
pub mod Asked
pub mod Top
pub mod Texts
pub mod Complete
