pub mod Accounting
pub mod Ending
pub mod Rounding
pub mod Sizing
