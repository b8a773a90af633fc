mod Parts
mod Texts
mod Bytes
mod Steps
