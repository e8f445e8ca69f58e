pub mod Whole
pub mod Overflow
pub mod Bindings
pub mod Worths
