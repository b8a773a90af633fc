mod Names
mod Whole
