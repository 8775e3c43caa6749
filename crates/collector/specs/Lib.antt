pub mod Pieces
pub mod Fitting
pub mod Images
pub mod Collecting
pub mod Filling
pub mod Faults
