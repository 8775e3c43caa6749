pub mod Limits
pub mod Scripts
pub mod ScriptFaults
pub mod Replies
pub mod Reading
pub mod Writing
pub mod Laws
