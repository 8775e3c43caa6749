pub mod Ledgers
pub mod Standing
pub mod Turning
pub mod Settling
pub mod Theorems
