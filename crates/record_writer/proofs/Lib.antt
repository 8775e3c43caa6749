pub mod Entries
pub mod Putting
pub mod Ending
pub mod Lending
pub mod Segments
pub mod Emitting
pub mod Marking
pub mod InOrder
