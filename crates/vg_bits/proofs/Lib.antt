pub mod Masks
pub mod Modular
pub mod Ranges
pub mod SignedValue
