pub mod Run
pub mod Cutting
