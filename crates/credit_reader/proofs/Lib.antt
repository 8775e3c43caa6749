mod Lists
pub mod Channels
mod Queues
mod Finding
mod Holding
mod Adding
mod Histories
