pub mod Runs
pub mod Takings
pub mod Steps
pub mod Samples
pub mod Endings
