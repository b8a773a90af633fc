pub mod Rows
pub mod Blocks
pub mod Courses
pub mod Placed
pub mod Standings
