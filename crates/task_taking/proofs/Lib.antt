pub mod Noting
pub mod Senders
pub mod InStep
pub mod Groups
pub mod Samples
pub mod Giving
