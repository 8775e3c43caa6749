pub mod Sums
pub mod Journals
pub mod Crowds
