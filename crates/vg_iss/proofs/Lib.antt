pub mod Decoded
pub mod Runs
pub mod Widths
pub mod Words
