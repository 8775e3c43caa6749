pub mod Answers
pub mod Run
pub mod SelfRuns
pub mod TextFaults
