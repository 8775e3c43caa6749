pub mod Snapshots
pub mod Stages
pub mod Applying
pub mod Accounts
