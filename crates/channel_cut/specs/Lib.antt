pub mod Cuts
pub mod Lanes
pub mod Ends
pub mod Takings
pub mod Runs
pub mod Works
