pub mod Samples
pub mod Until
pub mod RowTables
pub mod Placing
pub mod Here
pub mod Put
