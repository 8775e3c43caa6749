pub mod Asking
pub mod Receiving
pub mod Taking
pub mod Turning
