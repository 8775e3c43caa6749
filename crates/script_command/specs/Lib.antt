pub mod Limits
pub mod ScriptParts
pub mod Scripts
