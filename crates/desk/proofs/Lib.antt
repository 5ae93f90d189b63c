mod Splitting
mod Finding
