pub mod History
pub mod Rule
pub mod Passes
pub mod Closing
pub mod Steps
pub mod Making
pub mod Lending
