pub mod Plans
pub mod Ordered
pub mod Roots
pub mod Sources
pub mod Readers
pub mod Tables
pub mod OrderInvariants
pub mod TableInvariants
