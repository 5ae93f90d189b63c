pub mod Draws
pub mod Sizes
pub mod Steps
pub mod Tallies
