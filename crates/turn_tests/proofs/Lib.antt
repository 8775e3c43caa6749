pub mod Journals
pub mod Outings
