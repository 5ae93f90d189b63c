pub mod Numbers
pub mod Reading
pub mod Making
mod Changed
