pub mod Front
pub mod Heaps
pub mod Pairs
pub mod Rolls
pub mod Sizes
pub mod Trees
