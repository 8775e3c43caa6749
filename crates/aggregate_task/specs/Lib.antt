pub mod Snapshots
pub mod Acknowledging
pub mod Aggregates
pub mod Accounts
