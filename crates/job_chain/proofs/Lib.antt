pub mod Tasks
pub mod Chaining
