mod Numerals
mod Columns
