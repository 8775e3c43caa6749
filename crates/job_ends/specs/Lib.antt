pub mod Settling
pub mod Edges
pub mod Ended
pub mod Leaving
pub mod Returning
