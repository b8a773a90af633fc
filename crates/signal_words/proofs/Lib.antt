pub mod Told
pub mod Modulo
pub mod Numbers
pub mod Signals
pub mod Single
pub mod Fitting
pub mod Steps
