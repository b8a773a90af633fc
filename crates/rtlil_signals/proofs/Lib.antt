mod Loops
mod Cuts
mod Folds
mod Digits
mod Driving
