pub mod Causes
pub mod FaultTexts
pub mod Faults
pub mod Front
pub mod Held
pub mod Sources
