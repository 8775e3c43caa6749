pub mod Accounts
pub mod Aligning
pub mod Taking
