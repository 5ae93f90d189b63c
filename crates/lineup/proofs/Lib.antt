pub mod Fronts
mod Heaped
pub mod Joins
mod Pairing
mod Ranks
mod Sifts
