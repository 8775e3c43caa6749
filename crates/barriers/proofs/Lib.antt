mod Aligning
mod Barriers
mod Counting
mod Events
mod Flags
mod Given
mod Saves
