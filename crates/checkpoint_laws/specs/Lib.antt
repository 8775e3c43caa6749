pub mod Puts
pub mod Chapters
pub mod Collecting
pub mod Runs
pub mod Growing
pub mod Theorems
