pub mod Kept
pub mod Simulator
