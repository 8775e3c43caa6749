pub mod Limits
pub mod Plans
pub mod Entries
pub mod Begun
pub mod Joins
