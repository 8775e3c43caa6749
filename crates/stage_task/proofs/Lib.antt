pub mod Snapshots
pub mod Ends
pub mod Records
pub mod Acknowledging
pub mod SameStage
pub mod Running
pub mod AccountLemmas
