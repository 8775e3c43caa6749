pub mod Meets
pub mod Functions
pub mod Kinds
