pub mod Faults
pub mod Stops
mod Rings
pub mod Dealt
pub mod Lasts
pub mod Keepers
pub mod LastImages
