pub mod Spans
pub mod Lengths
