pub mod Orders
pub mod Edges
pub mod Dealing
pub mod Taking
pub mod Rows
pub mod Workers
pub mod Lent
pub mod Popping
