pub mod Refusals
pub mod Replies
pub mod Said
pub mod Recorded
