pub mod Images
pub mod Accounts
pub mod Gathering
pub mod Steps
pub mod Laws
