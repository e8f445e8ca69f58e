pub mod Matching
pub mod Setting
pub mod Encoding
pub mod Pattern
pub mod Replaced
