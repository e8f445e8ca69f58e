pub mod Lists
pub mod Longest
pub mod Spelled
pub mod Found
pub mod Once
pub mod Rows
