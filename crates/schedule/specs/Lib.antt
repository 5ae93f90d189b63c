pub mod Limits
pub mod Orders
pub mod Refusals
pub mod Machine
