pub mod Contents
pub mod Reading
pub mod ImageFaults
pub mod Outcomes
pub mod Building
