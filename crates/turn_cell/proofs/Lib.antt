pub mod Lists
pub mod Histories
pub mod Keeps
pub mod Turning
pub mod Gathering
pub mod Making
pub mod Weighing
pub mod Closing
