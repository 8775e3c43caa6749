pub mod Acknowledging
pub mod Sending
pub mod Snapshots
pub mod Checkpoints
pub mod OneItem
pub mod Endings
pub mod Accounts
