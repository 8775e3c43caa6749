pub mod Cells
pub mod Ends
pub mod Groups
pub mod Ids
pub mod Inlets
pub mod Workers
