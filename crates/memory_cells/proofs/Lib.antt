mod Parts
mod HighDigits
mod MaskedDigits
mod RowAfter
mod Told
pub mod ReadAfter
mod SetPart
mod Renewed
pub mod Fitting
mod Placed
