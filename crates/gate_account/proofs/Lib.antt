pub mod InStep
pub mod Takings
pub mod Examples
