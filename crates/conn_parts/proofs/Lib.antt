pub mod Appends
pub mod Lists
pub mod Passes
mod Spellings
pub mod Telling
pub mod Windows
