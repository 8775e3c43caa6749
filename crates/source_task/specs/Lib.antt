pub mod Emitting
pub mod Cutting
pub mod Sources
pub mod Accounts
