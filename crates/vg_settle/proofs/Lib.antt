pub mod Layouts
pub mod Reaching
pub mod Marking
pub mod Sweeping
pub mod Starting
