pub mod Alignments
pub mod Counts
pub mod Laws
