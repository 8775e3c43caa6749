pub mod Below
pub mod Channels
