pub mod Controlling
pub mod Rounds
