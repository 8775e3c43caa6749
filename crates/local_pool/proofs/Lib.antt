pub mod Dealing
pub mod Fitting
pub mod Moving
pub mod Lendings
