pub mod Luhn
pub mod Refusals
pub mod Code
pub mod Laws
