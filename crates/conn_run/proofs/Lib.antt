pub mod Arriving
pub mod Covering
