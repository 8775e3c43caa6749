pub mod Exchanges
pub mod Lanes
pub mod Opening
pub mod Inlets
