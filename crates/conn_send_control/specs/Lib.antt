pub mod Announcing
pub mod Taking
pub mod Going
