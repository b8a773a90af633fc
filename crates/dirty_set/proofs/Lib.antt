pub mod Summed
pub mod Descent
pub mod Leaves
pub mod Empty
pub mod Taken
