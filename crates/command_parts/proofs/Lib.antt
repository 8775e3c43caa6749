pub mod Options
pub mod SourceLemmas
pub mod Written
