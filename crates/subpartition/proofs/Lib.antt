pub mod Items
pub mod Fronts
pub mod Travelling
pub mod Allowed
pub mod Telling
pub mod Heads
pub mod Adding
pub mod Examples
