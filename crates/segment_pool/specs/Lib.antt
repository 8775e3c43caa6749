pub mod Counting
pub mod Lends
pub mod Passes
pub mod Places
pub mod Pools
pub mod Stocks
pub mod Turns
