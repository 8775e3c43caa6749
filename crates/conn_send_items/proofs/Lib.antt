pub mod Ends
pub mod Fronts
pub mod Giving
pub mod Lent
pub mod Saying
pub mod Sent
pub mod Standing
pub mod Noting
