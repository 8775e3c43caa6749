pub mod Examples
pub mod TwoWords
