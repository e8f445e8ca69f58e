pub mod Frames
pub mod Addresses
pub mod Costs
pub mod Refused
