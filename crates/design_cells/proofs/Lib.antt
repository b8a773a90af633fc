mod Orders
mod Words
mod Steps
