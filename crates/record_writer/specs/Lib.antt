pub mod Writers
pub mod Segments
pub mod Routers
pub mod Channels
pub mod Lists
pub mod Partitions
