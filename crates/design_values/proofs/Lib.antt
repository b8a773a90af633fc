mod Numbers
mod Connected
mod Joined
mod Following
