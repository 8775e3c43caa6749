mod Channels
mod GroupLaws
pub mod IdLaws
mod InletLaws
mod TaskLaws
