pub mod UpTo
pub mod SecondReadings
pub mod Gathered
pub mod Whole
pub mod Writings
pub mod Tails
pub mod WholeWrites
pub mod Sides
