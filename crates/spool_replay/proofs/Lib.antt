pub mod Listed
pub mod Playing
pub mod Searched
