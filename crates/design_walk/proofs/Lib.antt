mod Steps
mod Names
mod Found
mod Arrivals
mod Joined
mod Depth
