pub mod Snapshots
pub mod Views
pub mod Passes
