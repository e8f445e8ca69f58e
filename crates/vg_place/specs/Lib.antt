pub mod Stage
pub mod Unplaced
pub mod Planned
pub mod Time
pub mod Reading
pub mod Terms
