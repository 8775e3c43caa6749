pub mod Deployed
pub mod Lending
pub mod Making
pub mod Placing
pub mod Sharing
pub mod Stops
pub mod Shared
