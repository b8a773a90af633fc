mod Parts
mod Steps
