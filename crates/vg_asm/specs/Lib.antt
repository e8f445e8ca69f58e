pub mod Shown
pub mod Listing
