pub mod Numbers
pub mod Cuts
pub mod Spellings
pub mod Faults
pub mod Drafts
pub mod Writings
mod Examples
