pub mod Limits
pub mod Kinds
pub mod Frames
pub mod Faults
pub mod Reading
pub mod Theorems
