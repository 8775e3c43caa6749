pub mod EndLaws
pub mod GroupLaws
pub mod LendLaws
pub mod Lists
pub mod PartLaws
pub mod Places
pub mod Readers
pub mod WantLaws
