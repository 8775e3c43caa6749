pub mod Lanes
pub mod Worlds
pub mod Steps
pub mod Theorems
pub mod Sound
pub mod Laws
