mod Circuits
mod Faults
mod Loading
