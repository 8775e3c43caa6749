pub mod Grounds
pub mod Outcomes
pub mod Rows
pub mod Theorems
pub mod Storing
pub mod Words
