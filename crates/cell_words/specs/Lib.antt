pub mod Wholes
pub mod Kinds
pub mod Shifts
pub mod Operands
pub mod Ready
