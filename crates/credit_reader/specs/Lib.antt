pub mod Readers
pub mod Senders
pub mod Answers
pub mod Places
pub mod Laws
