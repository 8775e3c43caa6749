pub mod Entries
pub mod OnChannel
pub mod Sending
pub mod Begun
pub mod SeenLaws
pub mod Acking
