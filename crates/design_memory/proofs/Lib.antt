mod Lists
mod Bits
mod Limits
mod Steps
