pub mod Places
pub mod Shares
pub mod Stopping
pub mod Messages
pub mod Writing
pub mod Coming
pub mod Reading
pub mod Theorems
