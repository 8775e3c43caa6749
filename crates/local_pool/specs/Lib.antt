pub mod Helds
pub mod Lending
pub mod Locals
pub mod Moves
pub mod Shares
