pub mod Fields
pub mod Joining
