pub mod Pools
pub mod RunFaults
