pub mod Channels
pub mod Gates
pub mod Lanes
pub mod Making
pub mod Segments
pub mod States
pub mod Turning
