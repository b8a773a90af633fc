pub mod Histories
pub mod Progress
pub mod Texts
pub mod Beginnings
pub mod Clients
pub mod Ahead
pub mod Batches
