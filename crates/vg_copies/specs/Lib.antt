pub mod Copies
pub mod AtOnce
pub mod Schedule
