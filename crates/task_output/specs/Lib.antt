pub mod Outputs
pub mod Laws
pub mod Looking
pub mod Waiting
pub mod Acking
pub mod Ending
