pub mod Places
pub mod Loops
pub mod Tasks
pub mod Collecting
