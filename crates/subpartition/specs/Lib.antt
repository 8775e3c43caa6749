pub mod Sending
pub mod Queues
pub mod Standing
pub mod Theorems
