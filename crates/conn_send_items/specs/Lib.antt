pub mod Sending
pub mod Giving
pub mod Fronts
pub mod Items
pub mod Steps
