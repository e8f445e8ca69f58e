pub mod Reading
pub mod Memory
pub mod Order
pub mod Members
pub mod Placed
pub mod Steps
pub mod Contents
pub mod Samples
