pub mod Lists
pub mod Stretches
pub mod Growing
pub mod Keys
pub mod Told
pub mod Example
