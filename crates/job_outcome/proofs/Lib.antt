pub mod Places
mod Running
mod Jobs
mod Chaining
mod Worth
mod Ending
mod OverCredits
mod PeerGrounds
mod Grounds
mod Sureness
