pub mod Stages
pub mod Values
pub mod Moving
pub mod Keeping
pub mod Ticking
pub mod Reasons
pub mod Samples
