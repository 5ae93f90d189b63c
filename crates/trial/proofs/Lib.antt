mod Drawing
mod Runs
