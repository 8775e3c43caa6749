mod Tasks
mod Steps
mod Words
mod Loops
